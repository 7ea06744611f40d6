pub mod Growing
pub mod Lying
pub mod Ascending
pub mod Rows
