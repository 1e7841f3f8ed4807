pub mod Sbgp
pub mod Head
