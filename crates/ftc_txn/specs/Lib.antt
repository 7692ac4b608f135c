pub mod Slots
pub mod Touched
pub mod Head
pub mod Logs
pub mod Steps
pub mod Runs
