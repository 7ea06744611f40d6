pub mod Lines
pub mod Given
pub mod Marks
pub mod Edited
