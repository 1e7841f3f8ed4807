pub mod Widen
