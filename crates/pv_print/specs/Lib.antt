pub mod Bare
pub mod Base64
pub mod Escaped
pub mod Hex
pub mod Lines
pub mod Printed
