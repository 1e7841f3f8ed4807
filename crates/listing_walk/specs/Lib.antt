pub mod Seen
pub mod Told
