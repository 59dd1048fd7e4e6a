pub mod Reading
pub mod Valid
pub mod Keeping
pub mod Loading
pub mod Moving
