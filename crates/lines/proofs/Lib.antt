pub mod Numerals
pub mod Cutting
pub mod Naming
pub mod Spelling
