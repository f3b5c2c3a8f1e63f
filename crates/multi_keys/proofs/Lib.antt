pub mod KeyLaws
pub mod KeyOrder
pub mod TreeLaws
