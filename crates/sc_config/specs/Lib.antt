pub mod Configs
pub mod Courses
pub mod Keeping
