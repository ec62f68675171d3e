pub mod Blake2s
pub mod Hmac
pub mod Hashing
pub mod Lemmas
