pub mod Laying
pub mod Reading
pub mod Alike
