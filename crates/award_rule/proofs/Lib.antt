pub mod AwardLaws
pub mod SumsLaws
pub mod PlainLaws
pub mod ReportLaws
pub mod ReadLaws
