pub mod Orderly
pub mod LayoutLaws
pub mod LaidLaws
pub mod WordRowLaws
