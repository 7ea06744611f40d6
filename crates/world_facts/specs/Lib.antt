pub mod Words
pub mod Facts
pub mod Shapes
pub mod Views
pub mod Laws
