-- The statements of the laws, and the split store that two of them are about.
pub mod Again
pub mod Views
pub mod Examples
pub mod Endings
pub mod Signs
