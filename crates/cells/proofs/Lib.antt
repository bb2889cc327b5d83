-- Lemmas of three cells to a unit.
pub mod Triples
pub mod CellLists
pub mod Reading
pub mod Stores
pub mod Lawful
pub mod Kept
pub mod Writing
pub mod Relighting
pub mod Scans
