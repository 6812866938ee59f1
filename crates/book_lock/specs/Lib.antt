pub mod Views
pub mod Rule
pub mod Steps
pub mod LockPasses
pub mod NumberBooks
