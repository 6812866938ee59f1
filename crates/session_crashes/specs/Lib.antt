pub mod Crashes
pub mod Laws
pub mod Examples
