pub mod Boundaries
pub mod Rows
pub mod Answer
pub mod Report
