pub mod TableLaws
pub mod WholeLaws
