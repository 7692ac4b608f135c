pub mod Due
pub mod Known
pub mod Stretches
pub mod Carried
