pub mod Keys
pub mod Tree
