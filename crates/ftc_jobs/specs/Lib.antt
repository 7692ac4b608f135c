pub mod Rest
pub mod Turn
pub mod Lines
pub mod Quiet
pub mod Applies
pub mod Works
pub mod All
pub mod Beside
