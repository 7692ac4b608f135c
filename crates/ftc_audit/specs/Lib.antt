pub mod Visits
pub mod Ports
pub mod Backends
pub mod Table
pub mod Stored
pub mod Text
pub mod Sources
