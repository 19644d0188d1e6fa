pub mod Exported
pub mod Once
