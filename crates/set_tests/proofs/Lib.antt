pub mod SmallTables
