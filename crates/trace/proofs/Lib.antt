pub mod Bits
pub mod Packing
pub mod Padding
