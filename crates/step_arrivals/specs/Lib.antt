pub mod Arrivals
pub mod Timed
