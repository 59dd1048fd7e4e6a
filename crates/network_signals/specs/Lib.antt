pub mod Counts
pub mod Signals
pub mod Stages
