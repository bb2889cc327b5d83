-- The definitions of lists of words.
pub mod Lists
