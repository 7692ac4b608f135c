pub mod Locks
pub mod Acquired
