pub mod Fails
pub mod Names
pub mod Calls
pub mod Reading
pub mod Writing
