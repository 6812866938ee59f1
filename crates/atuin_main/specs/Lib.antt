pub mod Outside
pub mod Running
pub mod Folder
pub mod Causes
pub mod Exact
