pub mod Bodies
pub mod Telling
pub mod Pieces
pub mod Batches
pub mod Walks
