pub mod Running
pub mod FinalMeaning
