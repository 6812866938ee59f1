pub mod Books
pub mod Turns
pub mod Closing
pub mod Callers
