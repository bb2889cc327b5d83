-- The definitions of what is known of a program's tasks.
pub mod Examples
pub mod Known
pub mod Made
