pub mod Successions
pub mod Promises
pub mod Following
pub mod Agreement
