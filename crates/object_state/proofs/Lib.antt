pub mod Inline
pub mod Tables
pub mod Table
