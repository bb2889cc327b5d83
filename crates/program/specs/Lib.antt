-- The definitions of statements, runs, paths and programs.
pub mod Shapes
pub mod Signs
pub mod Runs
pub mod Paths
pub mod Sound
pub mod Spans
pub mod Drafts
pub mod Programs
