pub mod Number
pub mod Line
pub mod States
pub mod Reading
pub mod Refusals
pub mod Calls
