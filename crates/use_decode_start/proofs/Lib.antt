pub mod Entries
pub mod Turns
pub mod Bests
pub mod Searching
pub mod From
pub mod Laws
