pub mod Checked
pub mod Gotten
pub mod Input
pub mod Mapped
