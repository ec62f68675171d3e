pub mod Bare
pub mod Firsts
pub mod Grammar
pub mod Parses
pub mod Passing
pub mod Verdicts
