pub mod Expanding
pub mod Joining
pub mod Fronting
pub mod Parting
pub mod Telling
