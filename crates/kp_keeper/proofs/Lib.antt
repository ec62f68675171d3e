pub mod Places
mod Commanded
