pub mod Owned
pub mod Laid
pub mod Listed
pub mod Leading
