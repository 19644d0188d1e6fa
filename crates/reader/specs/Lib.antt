pub mod FirstLine
pub mod Sections
pub mod KeptAside
