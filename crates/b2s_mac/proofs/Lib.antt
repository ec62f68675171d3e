pub mod Vectors
pub mod Compressing
pub mod Absorbing
