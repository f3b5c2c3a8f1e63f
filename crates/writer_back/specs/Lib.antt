pub mod Same
pub mod OwnLaws
pub mod BidLaws
pub mod ReadBackLaws
pub mod ShortLaws
pub mod SpeltWordLaws
pub mod SpeltLaws
pub mod FilledLaws
