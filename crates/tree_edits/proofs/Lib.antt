pub mod Marked
pub mod Told
pub mod Given
pub mod Edited
pub mod Parsed
pub mod Numbered
