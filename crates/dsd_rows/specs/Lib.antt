pub mod Counts
pub mod Files
