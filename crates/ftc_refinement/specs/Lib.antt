pub mod Contents
pub mod Pulled
pub mod Got
pub mod Slots
