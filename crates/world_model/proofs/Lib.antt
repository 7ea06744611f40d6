pub mod Computed
pub mod Counted
pub mod Granted
pub mod Opened
pub mod Renamed
pub mod InRun
pub mod ComputedStories
