pub mod Whole
pub mod Tables
pub mod Items
pub mod Halves
