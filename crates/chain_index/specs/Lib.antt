pub mod Chains
pub mod Meaning
