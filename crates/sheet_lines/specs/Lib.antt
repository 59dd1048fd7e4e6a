pub mod Sheet
pub mod Reading
