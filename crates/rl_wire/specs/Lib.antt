pub mod Changes
pub mod Crossing
pub mod Laws
pub mod Lemmas
