pub mod Held
pub mod Walks
pub mod Places
pub mod Stops
pub mod Fats
