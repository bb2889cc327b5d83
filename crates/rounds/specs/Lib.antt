-- The definitions of the program that a text says, and of the rounds in which it is looked over.
pub mod Source
pub mod Rounds
pub mod Laws
pub mod Examples
