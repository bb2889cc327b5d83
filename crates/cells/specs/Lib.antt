-- The definitions of three cells to a unit.
pub mod Triple
pub mod Cells
pub mod Three
pub mod Members
pub mod Laws
pub mod Examples
