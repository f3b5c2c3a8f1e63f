pub mod TallyLaws
pub mod LinePlaceLaws
pub mod AnswerLaws
pub mod HeadLineLaws
