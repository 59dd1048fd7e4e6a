pub mod Orders
pub mod Gap
pub mod Times
pub mod Promises
pub mod Curves
pub mod Call
pub mod Cases
