pub mod Examples
pub mod Laws
pub mod Stores
pub mod World
