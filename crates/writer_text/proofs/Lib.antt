pub mod RowLaws
pub mod TableLaws
pub mod FillingLaws
