pub mod Boundaries
pub mod Answer
