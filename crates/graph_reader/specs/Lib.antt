pub mod Encoding
pub mod Records
pub mod Files
pub mod Decoding
pub mod Faults
pub mod Refusals
pub mod Reading
