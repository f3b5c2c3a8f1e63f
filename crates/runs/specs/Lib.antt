pub mod Runs
pub mod Cases
pub mod MinuteRows
