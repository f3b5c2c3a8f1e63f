pub mod Rounding
pub mod RoundLaws
