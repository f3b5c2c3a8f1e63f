pub mod Copying
pub mod PrefixLaws
pub mod WinnersLaws
pub mod AlongLaws
