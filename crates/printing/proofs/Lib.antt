pub mod Lines
pub mod Utc
