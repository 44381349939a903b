pub mod Sayings
pub mod SaidTables
pub mod Refusals
pub mod Drafts
pub mod Readings
