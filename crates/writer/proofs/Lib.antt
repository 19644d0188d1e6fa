pub mod Writing
pub mod Sizes
