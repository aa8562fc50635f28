pub mod Networks
pub mod Permits
pub mod Claims
