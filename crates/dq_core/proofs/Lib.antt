pub mod Balance
pub mod Counting
pub mod Holding
pub mod Moving
pub mod Shapes
pub mod Turning
pub mod Wired
