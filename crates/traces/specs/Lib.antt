pub mod Step
pub mod Call
pub mod Guarantees
