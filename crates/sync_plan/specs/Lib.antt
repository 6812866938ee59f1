pub mod FirstPlaces
pub mod Seen
pub mod Turns
