pub mod DocumentSums
pub mod DocumentsRoom
pub mod Fitting
pub mod RoomSteps
pub mod ReadAs
