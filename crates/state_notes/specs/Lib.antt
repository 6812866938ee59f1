pub mod Notes
pub mod Codes
