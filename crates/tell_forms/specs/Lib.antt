pub mod Placed
pub mod Json
pub mod Classes
pub mod Streams
pub mod Long
pub mod Lines
pub mod Listings
