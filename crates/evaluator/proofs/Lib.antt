pub mod Evaluating
pub mod Inputs
