pub mod Streams
pub mod Leads
pub mod Filled
pub mod Front
pub mod Counted
pub mod Sends
pub mod Blank
pub mod Fronts
