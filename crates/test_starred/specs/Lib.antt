pub mod Case
pub mod Headers
pub mod Tables
pub mod Descriptions
pub mod All
pub mod Listing
