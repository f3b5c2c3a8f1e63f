pub mod AlikeLaws
pub mod TextLaws
pub mod AuctionLaws
pub mod WithheldLaws
pub mod WalkLaws
