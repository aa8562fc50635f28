pub mod Joins
pub mod Bars
pub mod Numbers
pub mod Touches
pub mod Shaped
