mod Values
mod Counts
mod Lines
mod Loops
