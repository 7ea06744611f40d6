pub mod Lines
pub mod Staying
pub mod Behind
pub mod Spelling
pub mod Told
pub mod Storing
