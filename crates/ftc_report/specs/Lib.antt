pub mod Text
pub mod Contents
pub mod Report
pub mod Output
