pub mod Keeping
pub mod Leavings
pub mod Limits
pub mod Runs
pub mod Scripts
