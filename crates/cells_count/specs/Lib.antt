pub mod Hops
pub mod SumLaws
pub mod CountsLaws
pub mod WalkLaws
