pub mod Counts
pub mod Entries
pub mod Keeps
pub mod Marks
pub mod Places
pub mod Weights
