pub mod Leading
pub mod Many
pub mod One
pub mod Starting
