pub mod Market
pub mod Opens
pub mod Seats
