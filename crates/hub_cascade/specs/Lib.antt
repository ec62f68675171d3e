pub mod Laws
pub mod Sparing
