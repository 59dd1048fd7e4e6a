pub mod Links
pub mod Movements
pub mod Stages
