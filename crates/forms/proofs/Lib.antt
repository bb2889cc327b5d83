-- Lemmas of names, numbers and the forms of lines.
pub mod Words
pub mod Forms
pub mod Slots
