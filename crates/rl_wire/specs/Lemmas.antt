-- Lemmas on the definitions, which proofs above cite. A reader of the contracts needs none of them.
pub mod Attenuating
pub mod Exporting
pub mod Later
pub mod Returning
