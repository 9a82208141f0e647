pub mod Numbers
pub mod Formats
pub mod Records
pub mod Captures
pub mod Words
pub mod Worked
