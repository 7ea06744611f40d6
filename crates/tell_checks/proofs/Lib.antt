pub mod Named
pub mod Told
mod Standing
pub mod Promised
