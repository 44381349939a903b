pub mod Beginnings
pub mod Spots
pub mod Spellings
pub mod Ups
