pub mod Check
pub mod Flow
pub mod Laws
pub mod Layout
pub mod Rewrite
pub mod Sum
