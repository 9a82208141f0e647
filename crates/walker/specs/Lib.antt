pub mod Headers
pub mod Faults
pub mod Refusals
pub mod Steps
pub mod Walked
