pub mod Allowed
pub mod Lemmas
pub mod Served
pub mod News
pub mod Called
pub mod Laws
pub mod Seats
