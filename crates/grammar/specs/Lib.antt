-- The definitions of names, of what tokens are read as, and of the offences of a line.
pub mod Names
pub mod Reading
pub mod Judging
pub mod Standing
