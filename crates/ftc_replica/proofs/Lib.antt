pub mod Needed
pub mod Lacking
pub mod Left
pub mod Swept
pub mod Tickets
