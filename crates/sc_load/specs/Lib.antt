pub mod Limits
pub mod Loads
