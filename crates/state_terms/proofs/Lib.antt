pub mod Combining
pub mod Comparisons
pub mod Expressions
pub mod FirstTokens
pub mod PartsInOrder
pub mod Passing
pub mod VoltageWords
