mod Writing
mod Splitting
