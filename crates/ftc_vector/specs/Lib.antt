pub mod Vector
pub mod Order
pub mod Commits
pub mod Marked
