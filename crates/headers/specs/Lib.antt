pub mod Kinds
pub mod Table
pub mod Faults
pub mod Part
pub mod Names
