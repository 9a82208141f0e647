pub mod Faults
pub mod Writing
pub mod Parts
pub mod Refusals
pub mod Copying
