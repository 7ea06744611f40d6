pub mod Stays
pub mod Moves
pub mod Steps
