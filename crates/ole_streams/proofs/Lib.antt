pub mod Writing
pub mod Opening
pub mod AgainDoc
