pub mod Texts
pub mod Libraries
pub mod Netlists
pub mod Designs
pub mod Lines
pub mod Commands
pub mod Intents
pub mod Reports
