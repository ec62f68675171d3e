pub mod Kept
pub mod Limits
pub mod Oids
pub mod Ports
pub mod Shown
