pub mod Held
pub mod Pieces
pub mod Sinks
pub mod Filled
pub mod Faults
pub mod Programs
pub mod Loading
