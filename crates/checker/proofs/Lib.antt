pub mod Checks
pub mod Marking
