pub mod Atoms
pub mod Keeping
pub mod Laws
pub mod Lemmas
pub mod Nearness
