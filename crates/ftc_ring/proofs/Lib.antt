pub mod Geometry
pub mod Searches
pub mod Nearest
pub mod Sources
