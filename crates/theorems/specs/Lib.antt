pub mod Between
pub mod Rewriting
pub mod Asking
