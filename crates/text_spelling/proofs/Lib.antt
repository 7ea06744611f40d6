pub mod Blocks
mod Digits
pub mod Hex
pub mod Named
pub mod Plain
pub mod Numbers
pub mod Pushed
pub mod Spelled
mod Starts
