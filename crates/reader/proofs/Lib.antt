pub mod FirstLine
pub mod Sections
pub mod BySection
pub mod KeptAside
