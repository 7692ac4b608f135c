pub mod Packets
pub mod Grammar
pub mod ReleasedRecord
pub mod Placing
