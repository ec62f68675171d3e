pub mod Drawing
pub mod Made
pub mod Turns
pub mod Wiring
