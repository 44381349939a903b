pub mod Built
pub mod Entries
pub mod Held
pub mod Joined
pub mod ReadStates
pub mod ValueTests
