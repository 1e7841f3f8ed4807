pub mod Headers
pub mod Tables
pub mod Descriptions
pub mod Listing
pub mod All
