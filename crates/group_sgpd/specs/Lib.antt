pub mod Head
pub mod Marks
pub mod Sgpd
pub mod Told
