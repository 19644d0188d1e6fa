pub mod Proposal
pub mod Rewire
pub mod Vanish
pub mod Calls
