pub mod LoadEvents
pub mod Loads
