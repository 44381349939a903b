pub mod OneJob
pub mod OneAnswer
pub mod WorkedJobs
