pub mod Runs
pub mod Columns
pub mod Call
