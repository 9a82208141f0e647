pub mod Fronts
pub mod Headers
pub mod Keys
pub mod Asking
pub mod Tracing
pub mod Reading
