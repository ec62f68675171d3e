pub mod Looking
pub mod Telling
pub mod Work
