-- The definitions of the lowest memories.
pub mod Image
pub mod Lowest
pub mod Members
pub mod Buffered
pub mod Examples
