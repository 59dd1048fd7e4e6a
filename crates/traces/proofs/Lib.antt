pub mod Turns
pub mod Values
pub mod Moved
pub mod Guarantees
pub mod Calls
pub mod Examples
