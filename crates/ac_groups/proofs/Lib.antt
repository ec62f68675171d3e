pub mod ByMarks
pub mod Changes
pub mod Entries
pub mod Flat
pub mod Members
pub mod Pairs
