pub mod Changes
pub mod Fans
pub mod Laws
pub mod Lemmas
pub mod Limits
pub mod References
pub mod Spaces
pub mod Wants
