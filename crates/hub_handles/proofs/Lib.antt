pub mod Fresh
pub mod Coming
pub mod Got
pub mod Taken
pub mod Naming
pub mod Sending
pub mod Drawing
