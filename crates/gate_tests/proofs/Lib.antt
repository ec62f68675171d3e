pub mod Families
pub mod Moving
pub mod Summing
