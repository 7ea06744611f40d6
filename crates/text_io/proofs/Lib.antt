pub mod Asking
pub mod Inputs
pub mod LineByLine
pub mod LineFeeds
