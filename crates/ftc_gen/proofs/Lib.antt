pub mod Sums
pub mod Captured
