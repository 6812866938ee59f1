pub mod Logs
pub mod Initializing
pub mod Migrating
