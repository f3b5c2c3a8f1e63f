pub mod SpellingLaws
pub mod WinningLaws
