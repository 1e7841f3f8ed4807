pub mod Start
pub mod Told
pub mod Inner
pub mod From
