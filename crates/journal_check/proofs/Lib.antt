pub mod Rooms
pub mod OneMore
pub mod Admitted
