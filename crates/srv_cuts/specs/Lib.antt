pub mod Committed
pub mod Fronts
pub mod Laws
