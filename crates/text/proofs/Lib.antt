-- Lemmas of texts and their tokens.
pub mod Fronts
pub mod Held
pub mod Law
pub mod Lexing
pub mod Lining
pub mod Ordered
pub mod Runs
pub mod Whole
