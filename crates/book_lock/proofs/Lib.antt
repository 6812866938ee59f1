pub mod Views
pub mod Turns
pub mod Holding
pub mod LockPasses
pub mod Opening
pub mod Numbers
pub mod Laws
