pub mod Table
pub mod Stream
pub mod Plan
