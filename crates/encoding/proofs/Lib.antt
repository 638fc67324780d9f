pub mod Low
pub mod Decimal
pub mod Putting
