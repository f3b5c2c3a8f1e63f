pub mod Steps
pub mod JudgeLaws
pub mod StoreLaws
pub mod TakesLaws
pub mod FillsLaws
pub mod PlacesLaws
