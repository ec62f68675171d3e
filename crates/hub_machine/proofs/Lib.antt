pub mod Refusing
pub mod Unchanging
