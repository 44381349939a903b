pub mod InOrder
pub mod Membership
pub mod Numbering
