pub mod Decimal
pub mod Lines
pub mod Text
pub mod Spelt
pub mod Written
pub mod Delivered
