pub mod Leaves
pub mod Local
pub mod Table
pub mod LeafRule
pub mod Calls
pub mod Growing
