pub mod Store
pub mod Commits
pub mod Opening
pub mod Calls
pub mod Starting
pub mod Writing
pub mod Recording
pub mod Pages
