pub mod Lemmas
pub mod MarkedOrder
pub mod Marks
