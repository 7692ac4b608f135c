pub mod Store
pub mod Pairs
