pub mod Cases
pub mod Laws
pub mod Numbered
pub mod Numbers
pub mod Records
