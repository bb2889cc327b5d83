-- The definitions of a cabinet's calls.
pub mod Refusals
pub mod Words
pub mod Stages
pub mod Running
pub mod Steps
pub mod Calls
pub mod Opening
pub mod Lawful
pub mod Laws
pub mod StepLaws
pub mod Examples
