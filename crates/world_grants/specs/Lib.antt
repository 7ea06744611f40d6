pub mod Grants
pub mod Numbers
