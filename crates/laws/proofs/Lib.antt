-- The proofs of the laws, and lemmas on the way to them.
pub mod Paths
pub mod Runs
pub mod Kept
pub mod Again
pub mod Views
pub mod Examples
pub mod Endings
pub mod Signs
