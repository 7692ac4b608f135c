pub mod Visits
pub mod Given
pub mod Outlets
pub mod Choices
