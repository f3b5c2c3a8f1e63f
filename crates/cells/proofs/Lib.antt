pub mod BitLaws
pub mod FillingLaws
pub mod LowestLaws
pub mod MasksLaws
pub mod StoreLaws
