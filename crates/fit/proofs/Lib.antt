-- Lemmas of the program for the bench.
pub mod Enough
pub mod Filled
pub mod Logging
pub mod Offences
pub mod Standing
pub mod Tasks
