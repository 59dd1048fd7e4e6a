pub mod Told
pub mod Compare
