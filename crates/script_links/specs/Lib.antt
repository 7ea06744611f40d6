pub mod Apart
pub mod Going
pub mod Links
pub mod Ready
pub mod Shown
