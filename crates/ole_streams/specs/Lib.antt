pub mod Begun
pub mod Docs
pub mod Laws
