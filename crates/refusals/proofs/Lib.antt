pub mod Searching
pub mod Lowest
pub mod Ranking
