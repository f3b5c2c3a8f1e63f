pub mod Words
pub mod Read
pub mod Example
pub mod PriceExample
pub mod Differ
pub mod DifferInSpelling
pub mod DifferExample
pub mod Rules
