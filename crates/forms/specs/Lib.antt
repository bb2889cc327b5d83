-- The definitions of names, numbers and the forms of lines.
pub mod Words
pub mod Forms
pub mod Seen
pub mod Examples
