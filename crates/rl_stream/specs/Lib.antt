pub mod Courses
pub mod Laws
pub mod Lemmas
pub mod Limits
pub mod Nexts
pub mod Streams
