pub mod Ahead
pub mod Entered
pub mod Memory
pub mod Passed
