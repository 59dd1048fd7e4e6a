mod Tests
mod Bits
mod Places
mod Stored
mod Reading
mod Whole
pub mod ReadBack
pub mod Theorem
pub mod Call
mod Examples
