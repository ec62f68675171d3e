pub mod Lemmas
pub mod Watching
