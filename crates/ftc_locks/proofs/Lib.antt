pub mod Holdings
pub mod Granted
