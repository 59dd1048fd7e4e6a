pub mod Records
pub mod Writing
