pub mod Holding
pub mod Steps
