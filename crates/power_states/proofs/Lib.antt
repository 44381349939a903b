pub mod OneMeaning
pub mod OneTerm
pub mod TokenReading
pub mod WorkedParentheses
pub mod WorkedTerms
