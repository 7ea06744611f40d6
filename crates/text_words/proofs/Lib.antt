pub mod Passing
pub mod Cuts
pub mod Numerals
