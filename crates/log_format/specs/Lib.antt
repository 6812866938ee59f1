pub mod Fails
pub mod Answers
pub mod Headers
pub mod Digests
