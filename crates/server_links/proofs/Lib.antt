pub mod Lacking
pub mod Linked
mod Noted
mod Parts
mod Served
mod Runs
