-- The definitions of the plain machine.
pub mod Frames
pub mod Plain
pub mod Steps
pub mod Series
pub mod Machines
pub mod Examples
