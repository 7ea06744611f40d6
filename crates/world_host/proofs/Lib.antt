pub mod Counting
pub mod Opening
pub mod NumberedRanges
pub mod Joins
pub mod Filed
pub mod Stopping
