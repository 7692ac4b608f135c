pub mod Takes
pub mod Formed
pub mod Six
pub mod NamesGiven
