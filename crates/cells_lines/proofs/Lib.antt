pub mod Lines
pub mod Cells
pub mod Demands
pub mod Load
