-- Lemmas of drafts and programs.
pub mod Indices
pub mod Programs
pub mod Spans
pub mod Checks
pub mod Drafts
pub mod Flaws
