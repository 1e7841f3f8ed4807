pub mod Over
pub mod Differing
pub mod Fronts
pub mod Decides
pub mod Pairs
pub mod Numbered
