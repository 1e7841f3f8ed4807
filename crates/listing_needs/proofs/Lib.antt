pub mod From
pub mod Laws
pub mod Numbered
pub mod Replays
pub mod Rooms
