pub mod Courses
pub mod Firsts
pub mod Lemmas
