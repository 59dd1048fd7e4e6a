mod Ledger
mod State
pub mod Accepted
