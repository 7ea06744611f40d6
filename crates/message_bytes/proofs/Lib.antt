pub mod Adding
pub mod Begins
pub mod Fronts
pub mod Heads
pub mod Bodies
pub mod Leaving
