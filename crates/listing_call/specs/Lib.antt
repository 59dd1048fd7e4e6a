pub mod Listing
pub mod ReadsBack
pub mod Tables
pub mod Writing
