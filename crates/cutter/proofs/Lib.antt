pub mod Passed
pub mod Sweeping
pub mod Picking
pub mod Verdicts
