pub mod Following
pub mod Same
pub mod Visits
pub mod InTurn
pub mod ChangedLengths
