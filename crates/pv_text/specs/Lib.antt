pub mod Ends
pub mod Lemmas
pub mod OneWay
pub mod Reading
pub mod Reads
pub mod Spells
pub mod Stops
