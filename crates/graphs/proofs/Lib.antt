pub mod Finding
pub mod Noding
pub mod Refused
