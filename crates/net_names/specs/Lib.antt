pub mod Apart
pub mod Marks
pub mod Bodies
pub mod Meets
pub mod Things
pub mod Walking
pub mod Answers
