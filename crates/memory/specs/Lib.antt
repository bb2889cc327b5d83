-- The definitions of memories.
pub mod Faults
pub mod Light
pub mod Value
pub mod Through
pub mod Examples
