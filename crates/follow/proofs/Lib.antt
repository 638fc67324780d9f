pub mod Ways
pub mod WordMeaning
pub mod ArgsMeaning
pub mod SpineMeaning
pub mod RunMeaning
pub mod Answers
