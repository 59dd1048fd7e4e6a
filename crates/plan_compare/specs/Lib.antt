pub mod Comparison
pub mod Promises
pub mod Curves
