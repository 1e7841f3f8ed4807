pub mod Table
pub mod Lookup
pub mod Rooms
pub mod Numbered
