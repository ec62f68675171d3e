pub mod Accepting
pub mod Asking
pub mod Causing
pub mod Choosing
pub mod Keeping
pub mod Sending
