pub mod Binding
pub mod Filling
pub mod Gathered
pub mod Laws
pub mod Lemmas
pub mod Passing
pub mod Sizes
