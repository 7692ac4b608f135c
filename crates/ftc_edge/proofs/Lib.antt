pub mod Covered
pub mod Looked
pub mod Needed
