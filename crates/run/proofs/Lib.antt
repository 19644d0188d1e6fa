pub mod Greatest
pub mod Step
pub mod Run
pub mod Once
pub mod Calls
