pub mod Bit
pub mod Words
pub mod Sliced
pub mod WordLaws
pub mod BitLaws
pub mod Piled
