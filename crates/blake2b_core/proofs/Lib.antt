pub mod Facts
pub mod Compressing
pub mod Blocks
pub mod Holding
pub mod Words
