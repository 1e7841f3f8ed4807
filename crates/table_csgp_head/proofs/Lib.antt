pub mod Widths
pub mod Reading
pub mod Large
pub mod Checked
pub mod Ahead
pub mod Numbered
pub mod Examples
