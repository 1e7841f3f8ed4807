pub mod File
pub mod Found
pub mod From
pub mod Laws
pub mod Numbered
pub mod Placed
pub mod Turned
