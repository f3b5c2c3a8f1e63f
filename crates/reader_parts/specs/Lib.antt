pub mod Words
pub mod Windows
pub mod Flaws
pub mod Scan
pub mod Front
pub mod Answer
