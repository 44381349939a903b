pub mod Lists
pub mod Judged
pub mod Sorting
pub mod Reports
pub mod OneReport
