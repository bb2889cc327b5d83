-- The definitions of what is read and what is printed.
pub mod Answers
pub mod Input
pub mod Lines
pub mod Printed
