pub mod Queries
pub mod Bodies
pub mod Failing
pub mod Routing
pub mod Reading
pub mod Laws
