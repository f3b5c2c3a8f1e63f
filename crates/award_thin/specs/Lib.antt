pub mod Thin
pub mod CountsLaws
pub mod FirstsLaws
pub mod BareLaws
