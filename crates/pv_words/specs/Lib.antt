pub mod Kinds
pub mod Lemmas
pub mod Parts
pub mod Words
