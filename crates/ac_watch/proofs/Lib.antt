pub mod Events
pub mod Shapes
pub mod Wanting
pub mod Weights
