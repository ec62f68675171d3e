pub mod Fields
pub mod Under
pub mod Walks
