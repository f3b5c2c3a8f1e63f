pub mod MasksLaws
