pub mod Outcomes
pub mod Turns
pub mod Counting
pub mod Chains
pub mod InTime
pub mod Theorem
