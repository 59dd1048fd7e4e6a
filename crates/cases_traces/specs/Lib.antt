pub mod Values
pub mod Compare
