pub mod Round
pub mod Held
pub mod Checks
pub mod Written
pub mod Sequence
pub mod Trace
