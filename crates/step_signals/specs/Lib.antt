-- The definitions that the contracts cite.
pub mod Ready
pub mod Rules
pub mod Step
