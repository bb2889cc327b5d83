-- What a three-cell memory is, by what the memory below means.
pub mod Below
pub mod Layered
