pub mod Kept
pub mod Held
pub mod Waiting
pub mod Awaited
pub mod Tickets
pub mod InTurn
