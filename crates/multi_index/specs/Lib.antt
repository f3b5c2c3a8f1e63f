pub mod Index
pub mod Enlisted
pub mod IndexLaws
