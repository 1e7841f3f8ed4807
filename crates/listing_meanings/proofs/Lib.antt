pub mod Found
pub mod Pairs
pub mod Checking
pub mod Sampled
