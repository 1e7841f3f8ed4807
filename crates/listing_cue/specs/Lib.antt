pub mod Told
pub mod From
pub mod Rows
