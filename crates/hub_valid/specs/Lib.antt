pub mod Lemmas
pub mod Promises
pub mod Validity
