pub mod PastRoot
pub mod Steps
pub mod Walk
pub mod Weighing
