pub mod Queue
pub mod Taking
pub mod Sending
