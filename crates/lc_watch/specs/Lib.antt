pub mod Behaviours
