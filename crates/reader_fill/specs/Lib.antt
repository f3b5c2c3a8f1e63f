pub mod Answer
pub mod Opened
pub mod Rest
