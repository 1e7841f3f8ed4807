pub mod Ahead
pub mod Repeats
pub mod Marks
pub mod Putting
pub mod Entering
