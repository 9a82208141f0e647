pub mod Searching
pub mod Least
pub mod Names
pub mod Words
