pub mod Bounds
pub mod Firewall
