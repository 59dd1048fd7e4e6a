pub mod Put
pub mod Filling
pub mod Reading
pub mod Texts
pub mod Plan
pub mod Rows
