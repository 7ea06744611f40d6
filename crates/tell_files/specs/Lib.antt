pub mod Checks
pub mod Getting
pub mod Gets
pub mod Many
pub mod Maps
pub mod Reports
