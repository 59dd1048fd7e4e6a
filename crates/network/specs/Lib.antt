pub mod Loading
pub mod Counting
