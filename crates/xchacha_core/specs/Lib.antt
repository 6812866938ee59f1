pub mod Rows
pub mod ChaCha
pub mod Stream
