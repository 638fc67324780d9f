pub mod Passing
pub mod LoopsMeaning
