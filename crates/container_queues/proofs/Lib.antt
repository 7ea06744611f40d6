pub mod SteadyLookups
pub mod SteadyRoles
pub mod SteadyQueues
pub mod SteadyLinks
pub mod SteadyEnding
