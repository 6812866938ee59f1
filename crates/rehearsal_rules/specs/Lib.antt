pub mod Words
pub mod Transfers
pub mod Moments
pub mod Runs
pub mod Rehearsal
pub mod Summary
pub mod Laws
pub mod Examples
