-- Lemmas on the definitions, which proofs here and above cite. A reader of the contracts needs none of them.
pub mod Appending
pub mod Ascending
pub mod Coded
pub mod DictionaryFrom
pub mod EntryOrderLaws
pub mod Falls
pub mod Listed
pub mod Measures
pub mod OrderLaws
pub mod SetFrom
pub mod Smaller
pub mod WeightLaws
pub mod WellFormedLaws
