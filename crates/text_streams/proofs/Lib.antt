pub mod PlaceLaws
pub mod CloseLaws
pub mod AnswerLaws
