pub mod Adding
pub mod Batches
