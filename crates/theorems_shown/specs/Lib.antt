pub mod ListRead
