-- Lemmas on the definitions, which proofs above cite. A reader of the contracts needs none of them.
pub mod Completing
pub mod Dialects
pub mod Naming
pub mod ReplayLaws
