pub mod Answered
pub mod Buffers
pub mod DemandThree
pub mod Fits
pub mod From
pub mod Numbered
