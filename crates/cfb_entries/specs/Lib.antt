pub mod Tree
pub mod Seen
pub mod Whole
pub mod Entries
pub mod Written
pub mod Walk
pub mod SearchTree
