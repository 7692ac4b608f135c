pub mod View
pub mod Arrivals
pub mod Stand
