pub mod Picking
pub mod Sweeping
