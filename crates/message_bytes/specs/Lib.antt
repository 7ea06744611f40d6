pub mod Encoding
pub mod Fronts
pub mod Holding
