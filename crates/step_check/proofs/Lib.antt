-- The laws of the judgement of a step.
pub mod Rules
pub mod Pass
pub mod Search
pub mod Texts
