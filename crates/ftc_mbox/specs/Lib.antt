pub mod Ask
pub mod Bounds
pub mod Chain
pub mod Change
pub mod Monitor
pub mod Plan
pub mod Visit
pub mod InTurn
