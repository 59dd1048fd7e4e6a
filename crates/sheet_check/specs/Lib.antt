pub mod Watch
pub mod Stages
