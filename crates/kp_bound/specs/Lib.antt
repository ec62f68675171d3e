pub mod Bound
pub mod Forms
pub mod Lemmas
pub mod Spelled
