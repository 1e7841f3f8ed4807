pub mod Path
pub mod Told
