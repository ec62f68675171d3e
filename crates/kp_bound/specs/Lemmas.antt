-- Lemmas on the definitions, which proofs here and above cite. A reader of the contracts needs none of them.
pub mod Each
