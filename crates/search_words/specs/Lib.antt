pub mod Words
pub mod Queries
pub mod Parsing
