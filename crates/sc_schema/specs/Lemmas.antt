pub mod Courses
pub mod Done
pub mod FaultsPassed
