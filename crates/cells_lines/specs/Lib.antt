pub mod Corridor
pub mod Reading
