pub mod Batches
pub mod Cuts
pub mod Examples
pub mod Kept
pub mod Made
pub mod Stores
