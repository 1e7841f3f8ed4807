pub mod Walk
pub mod Bytes
pub mod Tallying
pub mod Halves
pub mod Answering
pub mod Body
pub mod Numbered
pub mod ReadsBack
