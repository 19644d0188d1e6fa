pub mod Walk
pub mod Tokens
pub mod Lines
pub mod LineWalk
pub mod ReaderAnswers
pub mod Thin
pub mod Asked
