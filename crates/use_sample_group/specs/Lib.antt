pub mod SampleGroup
pub mod Told
