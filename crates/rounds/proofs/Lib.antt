-- Lemmas of the rounds, and examples computed.
pub mod Rows
pub mod Laws
pub mod Computed
