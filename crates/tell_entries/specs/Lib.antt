pub mod Ways
pub mod Searches
