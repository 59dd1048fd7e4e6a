pub mod Laws
pub mod Numerals
pub mod Records
pub mod Lengths
