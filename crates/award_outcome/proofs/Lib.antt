pub mod GainLaws
pub mod SettleLaws
pub mod TableLaws
pub mod OutcomeLaws
pub mod OneAnswerLaws
pub mod TextOutcomeLaws
pub mod RowsPromiseLaws
