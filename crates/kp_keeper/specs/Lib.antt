pub mod Commands
pub mod Keeping
pub mod Memory
pub mod Records
pub mod Places
