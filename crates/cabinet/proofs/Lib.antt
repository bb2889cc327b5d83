-- Proofs about a cabinet.
pub mod Logs
pub mod Next
pub mod Turns
pub mod Recordings
pub mod Waking
pub mod Overlays
pub mod RunningReads
pub mod RunningTurns
pub mod Starting
pub mod Works
pub mod Beginnings
pub mod Openings
pub mod Laying
pub mod LaidWords
