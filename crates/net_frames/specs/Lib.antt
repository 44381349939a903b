pub mod Places
pub mod Framed
pub mod Feeding
