pub mod Answers
pub mod Clauses
pub mod Laws
pub mod Names
pub mod Pieces
pub mod Written
