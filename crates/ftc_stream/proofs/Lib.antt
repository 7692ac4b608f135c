pub mod Telling
pub mod Leaving
pub mod Growing
pub mod Meanings
