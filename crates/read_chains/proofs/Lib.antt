pub mod Ways
mod Entries
