mod FilledLaws
pub mod ReadAgainLaws
pub mod VariedLaws
pub mod TextGainLaws
pub mod CoverLaws
pub mod PaidLaws
pub mod VariedBidLaws
pub mod ListNumberLaws
pub mod ListGainLaws
pub mod UnreservedLaws
pub mod RewritingLaws
pub mod FittingLaws
pub mod EitherSpellingLaws
pub mod AskingLaws
pub mod Demands
