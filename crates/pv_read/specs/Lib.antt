pub mod Answers
pub mod Elements
pub mod Leading
pub mod Lemmas
pub mod Limits
pub mod Results
