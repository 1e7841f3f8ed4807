pub mod Copying
pub mod Joined
pub mod Placed
pub mod Searching
pub mod Sums
