pub mod Ordered
pub mod Names
