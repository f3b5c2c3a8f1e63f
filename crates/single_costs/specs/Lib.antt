pub mod Across
pub mod AcrossLaws
