pub mod Answers
pub mod Inverse
pub mod Ends
pub mod Releases
pub mod Recorded
pub mod Examining
pub mod Writing
