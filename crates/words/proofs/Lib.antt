-- Lemmas of short lists.
pub mod Kept
