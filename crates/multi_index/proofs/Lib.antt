pub mod Enlisting
