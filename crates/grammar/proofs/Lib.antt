-- Lemmas of the crate.
pub mod Found
