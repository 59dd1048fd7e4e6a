pub mod Places
pub mod Fields
pub mod Rows
pub mod Sums
pub mod Blocks
pub mod Tables
