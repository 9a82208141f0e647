pub mod Examples
pub mod Refused
