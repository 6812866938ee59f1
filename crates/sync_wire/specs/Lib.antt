pub mod Requests
pub mod Refusals
pub mod Exchanging
pub mod Replies
