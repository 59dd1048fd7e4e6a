pub mod Halves
pub mod Rows
pub mod Border
pub mod Filling
