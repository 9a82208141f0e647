pub mod One
pub mod Calling
pub mod Promising
pub mod Agreeing
