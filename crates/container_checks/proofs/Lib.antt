pub mod LookupPlaces
pub mod Numbers
pub mod ServersCounted
