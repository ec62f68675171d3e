pub mod Laws
pub mod Subjects
pub mod Verdicts
