pub mod Numbering
pub mod Halves
pub mod Call
pub mod Splits
