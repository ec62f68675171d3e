pub mod Cases
pub mod Lines
pub mod Rows
pub mod Sections
