pub mod Front
pub mod Alike
