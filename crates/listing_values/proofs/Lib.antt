pub mod Parts
pub mod Each
