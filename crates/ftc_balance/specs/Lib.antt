pub mod Bounds
pub mod Balance
