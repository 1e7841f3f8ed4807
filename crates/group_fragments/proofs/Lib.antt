pub mod Two
pub mod Numbered
pub mod Rate
