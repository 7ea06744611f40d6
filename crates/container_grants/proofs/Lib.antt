pub mod AskedAway
pub mod GrantsEach
pub mod GrantsTold
pub mod GrantsWaiting
pub mod ReapsMade
pub mod GrantsRooms
