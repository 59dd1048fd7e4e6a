pub mod Tables
pub mod Network
pub mod Plan
