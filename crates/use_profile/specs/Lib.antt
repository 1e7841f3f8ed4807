pub mod Profile
pub mod File
pub mod Told
pub mod Survey
pub mod From
