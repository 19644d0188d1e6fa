pub mod Finishing
pub mod Rewiring
