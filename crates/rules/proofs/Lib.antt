-- Lemmas of what is known of a program's tasks.
pub mod Facts
pub mod Largest
pub mod Making
