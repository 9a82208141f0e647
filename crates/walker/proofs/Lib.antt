pub mod Heading
pub mod Keying
pub mod Refused
pub mod Later
pub mod Stepping
pub mod Marking
pub mod Fields
