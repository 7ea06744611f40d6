pub mod Again
pub mod Came
pub mod Carried
pub mod Faulted
pub mod HeldBack
pub mod Holding
pub mod Settled
pub mod Writing
