pub mod Crossings
pub mod Exports
pub mod Gathers
pub mod References
