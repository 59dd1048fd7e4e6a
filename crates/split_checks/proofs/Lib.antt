mod Tests
mod Tables
pub mod Network
mod Split
mod Signals
mod Plan
