pub mod Sync
pub mod Told
