pub mod Seen
pub mod Drafting
