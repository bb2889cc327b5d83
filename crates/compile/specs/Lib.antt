-- The definitions of what the passes over a text come to.
pub mod Passes
pub mod Compiling
