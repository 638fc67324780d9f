pub mod SpineWays
