-- Lemmas of the rounds.
pub mod Judging
pub mod Going
pub mod Skips
pub mod Agreeing
pub mod Accepting
pub mod Sentences
pub mod Saying
pub mod Emits
pub mod Places
pub mod Parts
pub mod Behaving
pub mod Orderly
pub mod Structure
pub mod Checked
pub mod Whole
