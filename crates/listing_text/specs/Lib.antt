pub mod Lines
pub mod List
pub mod Made
pub mod Cases
