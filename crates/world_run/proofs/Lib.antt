pub mod Lines
mod Results
mod Names
mod Alike
mod Held
mod Sounded
mod Passing
mod Sought
mod Following
mod Swapping
mod Stopping
mod Telling
