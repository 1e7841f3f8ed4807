pub mod Row
pub mod Joined
pub mod Pattern
pub mod Found
