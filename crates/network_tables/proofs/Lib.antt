pub mod Tables
pub mod Places
pub mod Rows
pub mod Blocks
pub mod Stages
pub mod Every
pub mod Sums
