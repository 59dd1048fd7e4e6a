pub mod Field
pub mod Lines
pub mod Padding
pub mod Reading
pub mod Passing
