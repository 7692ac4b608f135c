pub mod Given
pub mod Command
pub mod Shown
pub mod Form
