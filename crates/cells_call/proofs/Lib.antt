pub mod Ready
pub mod Guarantees
pub mod Calls
pub mod Cases
