pub mod ExactSteps
pub mod WorkedSteps
