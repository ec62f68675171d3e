pub mod Asked
pub mod Endings
pub mod Folds
pub mod Undone
pub mod Request
pub mod Requests
pub mod Words
