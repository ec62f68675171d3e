-- Lemmas on the definitions, which proofs here and above cite. A reader of the contracts needs none of them.
pub mod Begins
pub mod EnclosedLaws
pub mod Found
pub mod GapLaws
pub mod JudgedTokens
pub mod Lexemes
pub mod Numerals
pub mod QuotedLaws
pub mod Readers
pub mod Runs
pub mod Seams
pub mod Texts
