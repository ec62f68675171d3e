pub mod Keys
pub mod Laws
pub mod Lemmas
pub mod Outlines
pub mod Paths
pub mod Splitting
pub mod Standing
