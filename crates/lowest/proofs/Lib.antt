-- Lemmas of the lowest memories.
pub mod InBytes
pub mod Cuts
