mod Trams
mod Network
mod Written
pub mod Lengths
