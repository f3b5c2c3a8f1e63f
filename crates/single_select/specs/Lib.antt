pub mod Extend
pub mod ExtendLaws
pub mod Weighing
pub mod WeighingLaws
