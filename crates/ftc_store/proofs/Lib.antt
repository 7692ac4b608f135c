pub mod Lookups
pub mod Listing
