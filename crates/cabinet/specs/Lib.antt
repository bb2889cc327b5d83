-- A cabinet as a value.
pub mod States
pub mod Cabinets
pub mod Reads
pub mod Logs
pub mod Running
pub mod Turns
pub mod Recordings
pub mod Waking
pub mod Works
pub mod Starting
pub mod Beginnings
pub mod Fitting
pub mod Openings
pub mod Laying
