-- Lemmas of the three-cell memory.
pub mod Storing
