-- Lemmas of the program that a person runs.
pub mod Cells
