pub mod CodeMeaning
pub mod Bounds
