pub mod Meant
pub mod Checked
pub mod Within
pub mod Through
