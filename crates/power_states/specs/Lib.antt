pub mod Expressions
pub mod ExpressionWords
pub mod Laws
pub mod TermMeaning
