pub mod Rowing
pub mod Chaining
pub mod Summing
pub mod Windows
pub mod Ruling
pub mod Keeping
pub mod Refused
