pub mod MakingLaws
