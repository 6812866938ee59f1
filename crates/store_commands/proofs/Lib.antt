pub mod Kept
pub mod Hits
pub mod Doubts
pub mod Staying
pub mod PipedSession
