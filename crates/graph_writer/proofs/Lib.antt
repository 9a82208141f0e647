pub mod Written
pub mod Rowing
pub mod Putting
pub mod Refused
pub mod Reread
pub mod AsRead
pub mod Copied
