pub mod Beside
pub mod Filled
pub mod Gathering
pub mod Passes
pub mod Reckoning
