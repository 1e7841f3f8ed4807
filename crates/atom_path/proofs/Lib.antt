pub mod Bodies
pub mod Cases
pub mod Examples
pub mod Numbered
