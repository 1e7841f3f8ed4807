pub mod Marks
pub mod Indices
pub mod Runs
pub mod Words
pub mod Examples
