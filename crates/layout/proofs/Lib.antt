-- Proofs about the log.
pub mod Chains
pub mod Computed
