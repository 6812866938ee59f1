pub mod Told
pub mod Opening
pub mod Asked
