-- Proofs about a cabinet's calls.
pub mod Computed
pub mod Entries
pub mod Fits
pub mod KeepsWords
pub mod KeepsStores
pub mod KeepsSteps
pub mod Keeps
pub mod Plainly
pub mod Stored
pub mod StepLaws
