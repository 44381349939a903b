pub mod Premises
pub mod Counting
pub mod Passing
