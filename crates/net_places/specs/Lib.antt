pub mod Terms
pub mod Nets
pub mod Mentions
pub mod Gathered
pub mod Tables
pub mod Plans
pub mod Finding
