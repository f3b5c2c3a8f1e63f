pub mod Canonical
pub mod Filling
pub mod Cases
