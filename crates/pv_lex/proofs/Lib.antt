pub mod HexDecoded
pub mod Listed
pub mod OneItem
pub mod Digits
pub mod Base64Decoded
