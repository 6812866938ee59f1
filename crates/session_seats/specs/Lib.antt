pub mod Stores
pub mod Answering
pub mod Frames
pub mod Sessions
pub mod Turns
pub mod Inputs
pub mod EmptyStores
