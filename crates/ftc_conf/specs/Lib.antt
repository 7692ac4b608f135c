pub mod Words
pub mod Forms
pub mod Draft
pub mod Grammar
pub mod Plain
