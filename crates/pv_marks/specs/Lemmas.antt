-- Lemmas on the definitions, which proofs above cite. A reader of the contracts needs none of them.
pub mod MarkedOrderLaws
