pub mod Texts
pub mod ReadHeaders
pub mod Whole
pub mod Joins
pub mod Following
