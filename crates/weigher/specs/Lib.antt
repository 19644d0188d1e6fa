pub mod Held
pub mod Weighing
