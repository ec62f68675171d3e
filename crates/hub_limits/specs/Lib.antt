pub mod Barring
pub mod Blaming
pub mod Counting
pub mod Laws
pub mod Watches
pub mod Weighing
