-- The laws of a signal through a step.
pub mod Cuts
pub mod OneBit
pub mod Phase
pub mod Rules
pub mod Texts
