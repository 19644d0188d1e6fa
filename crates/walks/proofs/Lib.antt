pub mod Elem
pub mod LoopTests
pub mod Locals
pub mod Rest
pub mod Meets
pub mod Assign
