-- The definitions of layouts and logs.
pub mod Places
pub mod Chains
pub mod Laws
pub mod Examples
