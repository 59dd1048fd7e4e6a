pub mod Watching
pub mod Step
pub mod Call
