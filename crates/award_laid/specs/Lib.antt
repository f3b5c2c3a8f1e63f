pub mod Lay
pub mod LayLaws
pub mod TellsLaws
pub mod EntryLaws
