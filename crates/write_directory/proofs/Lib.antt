pub mod Named
pub mod Numbers
pub mod Placed
pub mod Built
