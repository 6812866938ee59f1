pub mod Settings
pub mod Lists
