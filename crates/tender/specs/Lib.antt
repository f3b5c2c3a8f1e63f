pub mod Types
pub mod Limits
pub mod Tables
pub mod Plain
pub mod Keywords
pub mod Refusals
pub mod Rules
pub mod RulesLaws
