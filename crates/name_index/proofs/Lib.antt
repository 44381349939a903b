pub mod Links
pub mod Trees
pub mod Found
pub mod WorkedTables
