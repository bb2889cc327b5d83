-- Lemmas of facts over paths.
pub mod Sets
pub mod Joins
pub mod Ways
pub mod Arrivals
pub mod Leading
pub mod Inside
pub mod Statements
pub mod TouchedOver
pub mod MostPaths
pub mod TaskFacts
