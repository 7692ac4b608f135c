pub mod Lists
pub mod Passing
pub mod Trace
pub mod Needs
pub mod Alone
pub mod Undone
pub mod Adding
pub mod Dropping
