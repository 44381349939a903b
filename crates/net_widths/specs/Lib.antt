pub mod Refusals
pub mod Sides
pub mod WiredLines
pub mod Ports
