pub mod Events
pub mod Inputs
pub mod Lemmas
pub mod Limits
pub mod Readings
pub mod SoFar
pub mod TextInputs
