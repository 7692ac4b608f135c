pub mod ChainRun
pub mod Doing
pub mod Outlet
pub mod Course
pub mod Messages
pub mod Members
pub mod Slots
pub mod Frames
