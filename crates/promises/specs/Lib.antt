pub mod Calls
pub mod Bench
pub mod Promises
pub mod Edges
pub mod WindowEdges
pub mod ReplacementEdges
