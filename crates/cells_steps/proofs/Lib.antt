pub mod Flows
pub mod Guarantees
pub mod Turns
