pub mod Running
pub mod News
pub mod Called
