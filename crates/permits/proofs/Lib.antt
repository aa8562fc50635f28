pub mod Bars
pub mod Answers
pub mod Fixing
