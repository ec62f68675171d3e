pub mod Does
pub mod Told
pub mod Words
