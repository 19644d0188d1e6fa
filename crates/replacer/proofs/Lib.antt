pub mod Kept
pub mod Finishing
pub mod Replacing
