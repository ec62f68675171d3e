pub mod Adding
pub mod Coming
pub mod Seating
