pub mod HeaderWays
