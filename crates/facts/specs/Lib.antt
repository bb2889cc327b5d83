-- The definitions of facts over paths.
pub mod Sets
pub mod Membership
pub mod Joins
pub mod Passes
pub mod Touched
pub mod TouchedLaws
pub mod Most
pub mod MostLaws
pub mod Bounds
pub mod Examples
