pub mod Drawn
pub mod Laws
pub mod Once
pub mod Taking
