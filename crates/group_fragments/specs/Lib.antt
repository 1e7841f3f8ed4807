pub mod Fragments
pub mod Told
