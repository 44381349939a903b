pub mod Trees
pub mod Ways
pub mod Orders
pub mod Instances
