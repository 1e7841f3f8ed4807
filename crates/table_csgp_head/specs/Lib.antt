pub mod Csgp
pub mod Head
pub mod Indices
