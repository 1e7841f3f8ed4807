pub mod Decoded
pub mod Layout
pub mod Told
pub mod Same
