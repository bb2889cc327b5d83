-- Lemmas of the plain machine.
pub mod Series
pub mod Examples
pub mod Pages
pub mod Steps
pub mod Visits
