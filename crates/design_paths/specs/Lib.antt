pub mod BitNames
pub mod Ways
