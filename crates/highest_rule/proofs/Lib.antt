pub mod Searched
pub mod HighestLaws
pub mod RowLaws
pub mod AnswerLaws
