pub mod Lines
pub mod Faults
pub mod Input
pub mod Reading
