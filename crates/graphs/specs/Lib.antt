pub mod View
pub mod Faults
pub mod Deciding
pub mod Refusals
pub mod Checking
