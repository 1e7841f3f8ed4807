pub mod Patterns
pub mod Ahead
pub mod Runs
