pub mod Numbers
pub mod Answers
pub mod Calls
pub mod Edits
pub mod Checks
