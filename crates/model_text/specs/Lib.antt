pub mod NetworkText
pub mod Answers
