pub mod DigitLemmas
pub mod Printed
pub mod VoltAnswers
pub mod WorkedVolts
