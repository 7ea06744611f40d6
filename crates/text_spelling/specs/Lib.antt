pub mod Blocks
pub mod Words
pub mod Paths
pub mod Written
pub mod Laws
