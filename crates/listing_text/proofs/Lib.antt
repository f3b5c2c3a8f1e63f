pub mod LineLaws
pub mod ListLaws
