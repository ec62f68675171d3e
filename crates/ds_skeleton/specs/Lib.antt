pub mod Entering
pub mod Indexes
pub mod Keys
pub mod Laws
pub mod Leaves
pub mod Places
pub mod Shapes
