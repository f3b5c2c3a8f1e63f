pub mod VerdictLaws
pub mod MisplacedLaws
pub mod SoundLaws
pub mod ReserveLaws
pub mod ReadingLaws
