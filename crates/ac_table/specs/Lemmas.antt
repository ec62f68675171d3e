-- Lemmas which proofs here and above cite. A reader of the contracts needs none of them.
pub mod Entries
pub mod Leaves
pub mod Lists
pub mod Sums
