pub mod Changes
pub mod Views
pub mod Standing
pub mod Answers
pub mod Laws
pub mod Examples
