pub mod Counting
pub mod Loading
pub mod Refused
pub mod Reading
pub mod Sound
