pub mod Filling
pub mod Joined
pub mod Plans
pub mod Streams
