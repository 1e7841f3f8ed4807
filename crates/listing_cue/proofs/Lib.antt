pub mod DemandThree
pub mod Writing
pub mod Listed
pub mod Fits
