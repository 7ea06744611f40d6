pub mod Child
pub mod NodeView
pub mod Change
pub mod View
pub mod Kept
pub mod Laws
pub mod Transactions
pub mod FaultNames
