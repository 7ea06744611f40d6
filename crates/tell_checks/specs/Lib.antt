pub mod Spots
pub mod Lines
pub mod Json
