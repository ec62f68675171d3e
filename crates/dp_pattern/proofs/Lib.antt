pub mod Gathering
pub mod Shapes
