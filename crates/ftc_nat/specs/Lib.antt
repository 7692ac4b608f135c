pub mod Bounds
pub mod Nat
