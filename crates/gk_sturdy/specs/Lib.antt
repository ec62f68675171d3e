pub mod Answers
pub mod Bindings
pub mod Chain
pub mod Kept
pub mod Laws
pub mod Lemmas
pub mod Refs
