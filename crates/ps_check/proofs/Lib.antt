pub mod Drops
pub mod Heights
pub mod Inside
pub mod Judged
pub mod Meanings
