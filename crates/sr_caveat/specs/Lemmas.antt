-- Lemmas on the definitions, which proofs here and above cite. A reader of the contracts needs none of them.
pub mod Capped
pub mod CaveatsBack
pub mod Coded
pub mod Dropping
pub mod Falls
pub mod Folding
pub mod Measures
pub mod PatternsBack
pub mod Told
