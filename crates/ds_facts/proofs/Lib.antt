pub mod Fewest
pub mod Kept
pub mod Places
pub mod Same
pub mod Told
