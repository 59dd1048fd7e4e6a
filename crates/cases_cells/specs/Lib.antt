pub mod Reported
pub mod Compare
