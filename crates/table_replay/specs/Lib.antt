pub mod Enter
pub mod Periods
pub mod Records
pub mod Replay
pub mod Step
pub mod Within
