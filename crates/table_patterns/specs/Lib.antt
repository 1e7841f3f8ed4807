pub mod Place
pub mod Run
