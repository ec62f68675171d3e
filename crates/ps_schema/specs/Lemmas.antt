-- Lemmas on the definitions, which proofs here and above cite. A reader of the contracts needs none of them.
pub mod Coded
pub mod CodedDefinitions
pub mod Ends
pub mod Falls
pub mod Measures
