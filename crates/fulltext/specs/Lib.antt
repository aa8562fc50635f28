pub mod Full
pub mod Claims
