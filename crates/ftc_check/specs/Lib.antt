pub mod Difference
pub mod Taps
pub mod Verdict
pub mod Laws
