pub mod Fronts
pub mod Cutting
pub mod Steps
pub mod Committing
