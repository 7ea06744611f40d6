pub mod Ascii
pub mod Told
pub mod Rows
pub mod Picked
pub mod Pushed
