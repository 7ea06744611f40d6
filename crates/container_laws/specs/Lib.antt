pub mod Laws
pub mod CommitLaws
pub mod OpenLaws
pub mod Apart
