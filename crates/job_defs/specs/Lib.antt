pub mod Jobs
pub mod Readers
pub mod FileFaults
pub mod Loading
pub mod Answers
pub mod Laws
