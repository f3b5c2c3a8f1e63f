pub mod Promise
pub mod Gain
pub mod Right
