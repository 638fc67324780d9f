pub mod Packing
pub mod Sweep
pub mod Ends
pub mod Filled
pub mod Loops
