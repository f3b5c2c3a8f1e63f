pub mod OpensLaws
pub mod WordRowLaws
pub mod BeginLaws
pub mod RunLaws
pub mod KeyedLaws
