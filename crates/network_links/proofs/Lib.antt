mod Links
pub mod Movements
pub mod Shares
mod Last
