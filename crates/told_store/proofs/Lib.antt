pub mod Leaving
pub mod Telling
pub mod Opened
pub mod Paging
