-- The definitions of texts, their tokens, and what a refusal tells.
pub mod Refusals
pub mod Bytes
pub mod Tokens
pub mod Seen
pub mod Readable
pub mod Reading
pub mod Runs
