pub mod Ring
pub mod Live
pub mod Groups
