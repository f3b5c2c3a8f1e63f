pub mod RestLaws
pub mod NextLaws
pub mod FirstLaws
pub mod LinesReadLaws
pub mod FillLaws
pub mod ReadInLaws
