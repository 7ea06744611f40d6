pub mod Completing
pub mod SaidOn
