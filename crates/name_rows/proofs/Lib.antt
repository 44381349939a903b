pub mod CutLemmas
pub mod WorkedNames
