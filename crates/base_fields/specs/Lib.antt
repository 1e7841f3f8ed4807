pub mod Answer
pub mod Fourcc
pub mod Number
pub mod Records
pub mod Refusal
pub mod Span
