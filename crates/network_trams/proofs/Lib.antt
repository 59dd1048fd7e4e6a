mod Tested
pub mod Lines
pub mod Claims
pub mod Ready
