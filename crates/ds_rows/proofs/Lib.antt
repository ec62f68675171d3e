pub mod Counted
pub mod Gone
