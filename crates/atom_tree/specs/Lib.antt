pub mod Atom
pub mod Told
