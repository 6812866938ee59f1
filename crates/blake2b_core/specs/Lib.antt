pub mod Constants
pub mod Compression
pub mod Hash
pub mod Hashing
