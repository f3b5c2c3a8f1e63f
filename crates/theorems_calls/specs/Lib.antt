pub mod Calls
pub mod OneReading
