pub mod Ends
pub mod Telling
pub mod Finding
pub mod Piping
