pub mod Lines
pub mod Formed
pub mod Fits
pub mod Same
pub mod Answers
