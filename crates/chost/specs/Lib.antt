pub mod Number
pub mod Area
pub mod Once
pub mod Called
