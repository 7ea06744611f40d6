mod Shown
mod Written
mod Kept
mod Loading
pub mod Behind
pub mod Boxed
pub mod Over
pub mod Listed
pub mod Moved
pub mod Picturing
