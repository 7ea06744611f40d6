pub mod Lengths
pub mod Numbers
pub mod Overlaid
pub mod Same
pub mod SameSectors
pub mod Trimmed
pub mod Undoing
