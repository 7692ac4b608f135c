pub mod Job
pub mod EventList
pub mod Text
pub mod Spelling
pub mod Reading
pub mod Formed
pub mod Faulty
