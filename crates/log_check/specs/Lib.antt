pub mod Forms
pub mod Checking
pub mod Batches
pub mod Walks
