pub mod Listing
pub mod Calls
