pub mod Sound
pub mod Sorts
pub mod Finding
pub mod Firsts
pub mod Splitting
pub mod Covering
pub mod BitLaws
