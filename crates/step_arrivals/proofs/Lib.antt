pub mod Arrivals
pub mod Timed
pub mod Boundaries
