pub mod Acted
pub mod Ended
pub mod Folded
pub mod Refused
pub mod Spelled
pub mod Requested
