pub mod Members
pub mod Orders
pub mod Found
pub mod Rings
