pub mod Maps
pub mod Painting
pub mod Sizes
pub mod Streams
pub mod Parts
