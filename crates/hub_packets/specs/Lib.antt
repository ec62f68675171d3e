pub mod Aims
pub mod Counting
pub mod Refusals
pub mod Telling
