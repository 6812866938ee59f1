pub mod Prefixes
pub mod Standing
