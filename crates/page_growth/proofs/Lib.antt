pub mod Passing
pub mod Chosen
pub mod Taking
