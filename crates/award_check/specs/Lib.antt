pub mod Faults
pub mod Cells
pub mod Auction
pub mod Alike
