pub mod Award
pub mod Plain
pub mod Sums
