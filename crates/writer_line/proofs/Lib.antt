pub mod LengthLaws
pub mod PutLaws
