pub mod Fields
pub mod Contents
pub mod Operations
pub mod Bodies
pub mod Lengths
pub mod Readings
