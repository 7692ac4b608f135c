pub mod Counts
pub mod Leaving
pub mod Jobs
pub mod Ending
pub mod Unwritten
