pub mod Cutting
pub mod Integers
pub mod Lengths
pub mod Rising
pub mod Sorting
pub mod Spelling
