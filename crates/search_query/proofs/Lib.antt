pub mod Walks
pub mod Memos
pub mod Needles
pub mod Answering
pub mod Folds
pub mod Bounds
pub mod Telling
