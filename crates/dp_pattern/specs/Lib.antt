pub mod Gathered
pub mod Laws
pub mod Lemmas
pub mod Matching
pub mod Patterns
pub mod View
pub mod Written
