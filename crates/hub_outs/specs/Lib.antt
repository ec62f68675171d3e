pub mod Lemmas
pub mod Outs
