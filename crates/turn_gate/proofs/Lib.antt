pub mod Histories
pub mod Moves
pub mod Family
pub mod Passing
pub mod Standing
pub mod Going
