pub mod Faults
pub mod Counts
pub mod Held
pub mod Plain
pub mod Following
pub mod Laws
