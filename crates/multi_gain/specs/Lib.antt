pub mod Gain
pub mod GainLaws
