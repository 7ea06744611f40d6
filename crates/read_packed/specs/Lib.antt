pub mod Named
pub mod Packed
pub mod Places
