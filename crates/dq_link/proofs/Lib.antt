pub mod Bringing
pub mod Going
pub mod Hearing
pub mod Putting
pub mod Reacting
pub mod Rounds
pub mod Staying
