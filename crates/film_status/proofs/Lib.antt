pub mod Returned
pub mod Told
