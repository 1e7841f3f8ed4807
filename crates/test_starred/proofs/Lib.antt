pub mod Starred
pub mod Row
