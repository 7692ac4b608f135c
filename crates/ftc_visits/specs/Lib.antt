pub mod Made
pub mod Undoing
