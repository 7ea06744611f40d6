pub mod Lending
pub mod Went
