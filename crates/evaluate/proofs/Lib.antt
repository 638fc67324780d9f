pub mod Settling
pub mod Evaluating
pub mod RowsGiven
