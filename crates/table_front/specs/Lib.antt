pub mod Front
pub mod Told
