pub mod Setting
pub mod Parts
pub mod TextCourses
