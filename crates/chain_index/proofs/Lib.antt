pub mod Maps
pub mod Levels
pub mod Filing
pub mod Listing
