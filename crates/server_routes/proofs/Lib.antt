pub mod GivenReads
pub mod LoneAsking
pub mod SharedAsking
pub mod Told
pub mod Isolation
