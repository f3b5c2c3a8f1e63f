pub mod ThinLaws
pub mod MultiLaws
pub mod SingleLaws
