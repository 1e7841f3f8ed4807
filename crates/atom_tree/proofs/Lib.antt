pub mod Cases
pub mod Enums
pub mod Headers
pub mod Numbered
pub mod Onward
