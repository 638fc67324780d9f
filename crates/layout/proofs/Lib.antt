pub mod Answers
pub mod FormatLaws
pub mod Fields
pub mod Places
pub mod Inverse
pub mod Ends
pub mod Locating
pub mod Filling
