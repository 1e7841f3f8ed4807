pub mod Needs
pub mod Told
