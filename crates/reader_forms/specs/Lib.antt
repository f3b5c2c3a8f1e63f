pub mod Line
pub mod LinePlain
pub mod Tally
pub mod LineFront
