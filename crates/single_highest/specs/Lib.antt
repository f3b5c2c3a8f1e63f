pub mod Runnable
pub mod BelowLaws
