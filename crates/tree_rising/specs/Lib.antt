pub mod Laid
pub mod Spots
pub mod Below
pub mod Rising
pub mod Row
