pub mod Limits
pub mod Checking
