pub mod Given
pub mod WordBytes
pub mod Left
pub mod Steps
pub mod Growth
pub mod Called
pub mod Paged
