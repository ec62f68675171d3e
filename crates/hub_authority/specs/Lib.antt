pub mod Asked
pub mod Dialects
pub mod Laws
pub mod Meant
pub mod Named
