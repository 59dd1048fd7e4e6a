mod Values
pub mod Steps
