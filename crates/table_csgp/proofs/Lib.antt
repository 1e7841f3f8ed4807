pub mod Ahead
pub mod Parse
pub mod Lookup
pub mod Rooms
pub mod Numbered
