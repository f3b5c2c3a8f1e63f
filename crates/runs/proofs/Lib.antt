pub mod RunsLaws
pub mod RunsHoldLaws
pub mod RunsFewLaws
pub mod NextLaws
pub mod JoinedLaws
pub mod MinuteRowLaws
