pub mod FunctionLemmas
pub mod KeyLemmas
pub mod MeaningLemmas
pub mod WorkedConditions
