pub mod Members
pub mod Beats
pub mod Grammar
pub mod Plain
pub mod Watch
pub mod Watcher
pub mod Fenced
pub mod Lines
