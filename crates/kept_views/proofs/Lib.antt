pub mod HeldPayloads
pub mod Ready
pub mod Starting
pub mod Changes
pub mod Showing
pub mod Growing
