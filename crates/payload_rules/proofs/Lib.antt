pub mod Items
pub mod Payloads
pub mod Written
pub mod Reading
pub mod Examples
