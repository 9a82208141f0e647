pub mod Chains
pub mod Faults
pub mod Refusals
pub mod Checking
