pub mod Causes
pub mod Kept
pub mod Limits
pub mod Serving
