pub mod Fed
pub mod Peeled
pub mod Least
pub mod Search
