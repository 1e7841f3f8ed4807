pub mod Counts
pub mod Enough
pub mod Opening
