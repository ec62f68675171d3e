pub mod Fates
pub mod Links
pub mod Tallies
