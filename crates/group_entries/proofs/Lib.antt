pub mod Front
pub mod Extent
pub mod Values
pub mod Same
pub mod Numbered
pub mod Points
