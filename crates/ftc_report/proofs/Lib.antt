mod Grouping
mod Numbering
mod Legal
mod Recorded
mod Writable
pub mod Ended
