pub mod Sorted
pub mod Order
pub mod Candidates
pub mod Listing
pub mod Calls
