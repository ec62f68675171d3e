pub mod Fielded
pub mod ReadAs
pub mod Readings
pub mod SoFar
