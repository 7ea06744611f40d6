pub mod Answered
pub mod Asking
pub mod Handing
pub mod Relieving
