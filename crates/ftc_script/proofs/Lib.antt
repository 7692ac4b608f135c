pub mod InTurn
pub mod Acceptance
pub mod Letters
pub mod ReadAgain
