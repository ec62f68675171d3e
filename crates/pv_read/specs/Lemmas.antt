-- Lemmas on the definitions, which proofs here and above cite. A reader of the contracts needs none of them.
pub mod Answering
pub mod Binds
pub mod Elements
pub mod Fronts
pub mod Leading
