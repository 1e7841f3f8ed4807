pub mod Steps
pub mod Sampled
pub mod Positions
