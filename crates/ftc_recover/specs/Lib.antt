pub mod Fetched
pub mod Pulled
