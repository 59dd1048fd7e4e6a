pub mod Lines
pub mod Network
