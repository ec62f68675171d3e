pub mod Asked
pub mod Going
