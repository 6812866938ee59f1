pub mod Items
pub mod Payloads
pub mod Reading
pub mod Examples
