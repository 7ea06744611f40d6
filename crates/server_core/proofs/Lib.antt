pub mod Gathering
pub mod Known
pub mod NextCalls
pub mod OwnCalls
pub mod Standing
