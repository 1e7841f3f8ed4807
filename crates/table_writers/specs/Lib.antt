pub mod Told
pub mod Runs
pub mod Tally
pub mod Words
pub mod Halves
