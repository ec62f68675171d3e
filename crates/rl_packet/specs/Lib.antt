pub mod Grammar
pub mod Holding
pub mod Kept
pub mod Packets
pub mod Spelled
pub mod Wired
