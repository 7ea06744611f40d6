pub mod Apart
pub mod Going
pub mod Handing
pub mod Linked
pub mod Paces
pub mod Served
pub mod Shown
